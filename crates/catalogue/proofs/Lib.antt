-- Lemmas that the proofs of this crate share.
pub mod Taken
pub mod Finished
