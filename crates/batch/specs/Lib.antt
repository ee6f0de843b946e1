pub mod Cells
pub mod Turns
pub mod Lists
