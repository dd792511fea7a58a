-- Lemmas that the proofs of this crate and of the reader share.
pub mod Faults
pub mod Kept
