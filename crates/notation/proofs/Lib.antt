pub mod Wording
pub mod Numbering
pub mod Forming
pub mod Sensing
pub mod Texting
pub mod Trips
pub mod Telling
mod Examples
