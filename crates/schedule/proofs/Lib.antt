pub mod Preparing
pub mod Turning
pub mod Filing
pub mod Once
