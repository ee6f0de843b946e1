pub mod Keys
pub mod Plain
pub mod Calls
pub mod Answers
pub mod Model
pub mod WellFormed
pub mod Demands
pub mod Situations
