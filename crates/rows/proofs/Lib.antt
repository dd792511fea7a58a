-- Lemmas that the proofs of this crate share, and the laws of rows.
pub mod Building
pub mod Computed
pub mod Halving
pub mod Words
pub mod Told
pub mod Standing
pub mod NeedLines
pub mod Resolutions
pub mod Refuting
