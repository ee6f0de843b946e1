pub mod Insert
pub mod Remove
