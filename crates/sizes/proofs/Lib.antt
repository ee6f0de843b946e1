pub mod Sizing
pub mod Ranking
