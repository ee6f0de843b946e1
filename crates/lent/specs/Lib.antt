pub mod Lends
pub mod Forms
