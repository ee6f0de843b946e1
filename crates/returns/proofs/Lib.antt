pub mod HandCases
pub mod Freeing
pub mod HandLaw
pub mod SweepLaw
