-- Theorems over all lent forms.
pub mod Once
pub mod Unchanged
