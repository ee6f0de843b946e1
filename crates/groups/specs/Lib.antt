pub mod Groups
pub mod Buffers
pub mod Signs
