pub mod SetUps
pub mod Turns
pub mod Files
