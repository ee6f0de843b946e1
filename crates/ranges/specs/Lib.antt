pub mod Tickets
pub mod Close
pub mod Walk
pub mod Step
pub mod Open
pub mod Fast
