pub mod Fetching
pub mod Going
