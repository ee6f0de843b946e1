pub mod Words
pub mod Numerals
pub mod Forms
pub mod Texts
pub mod Showing
pub mod Inner
