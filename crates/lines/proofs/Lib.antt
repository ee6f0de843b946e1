pub mod Telling
pub mod Lining
pub mod Sofar
pub mod Fitting
pub mod Parting
pub mod Cutting
pub mod Filing
pub mod PrintsOnce
