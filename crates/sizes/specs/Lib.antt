pub mod Sizes
pub mod Rank
