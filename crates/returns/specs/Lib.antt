pub mod Freeing
pub mod HandOver
pub mod Sweep
