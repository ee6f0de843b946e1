pub mod Capacities
pub mod Viewing
pub mod Ranging
pub mod Telling
pub mod Meeting
pub mod Finding
