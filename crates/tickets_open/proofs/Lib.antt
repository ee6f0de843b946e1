-- Lemmas that several proofs of this crate share.
pub mod Closing
