pub mod Heights
pub mod Framing
pub mod Linking
pub mod Leaving
pub mod Cases
pub mod InsertLaw
pub mod RemoveLaw
