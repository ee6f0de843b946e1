pub mod Tested
pub mod SetUp
pub mod Never
