pub mod Lines
pub mod Told
pub mod Parts
pub mod Files
