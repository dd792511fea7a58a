-- Lemmas that the proofs of this crate share, and laws for the layers below.
pub mod Faults
pub mod Kept
pub mod Taken
pub mod Judging
pub mod Finished
