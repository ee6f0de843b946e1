pub mod Outcome
pub mod Entries
pub mod Histories
