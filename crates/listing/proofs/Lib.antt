pub mod Digits
pub mod Putting
pub mod Filling
pub mod Lining
mod Examples
