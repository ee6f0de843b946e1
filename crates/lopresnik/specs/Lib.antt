pub mod Exports
pub mod Written
