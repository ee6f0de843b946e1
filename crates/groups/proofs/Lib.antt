pub mod Standing
pub mod Scanning
pub mod Joining
pub mod Grouping
pub mod Signing
pub mod Writing
