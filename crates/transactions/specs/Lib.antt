pub mod Sequences
pub mod Calls
pub mod Readings
pub mod Inner
