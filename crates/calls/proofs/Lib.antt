pub mod Once
pub mod Entering
pub mod Unchanged
pub mod Histories
