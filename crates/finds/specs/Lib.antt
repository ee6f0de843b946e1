pub mod Near
pub mod Nearest
pub mod Lookup
pub mod Tally
