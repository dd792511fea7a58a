-- Lemmas that the proofs of this crate share, and what the written text is by the rules.
pub mod Turns
pub mod Whole
pub mod Selected
