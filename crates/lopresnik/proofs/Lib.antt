-- That an exported function is determined, and laws of the writers.
pub mod Once
pub mod Unchanged
pub mod Asking
