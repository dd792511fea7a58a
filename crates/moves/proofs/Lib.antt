-- Lemmas that the proofs of this crate share, and what its answers mean by the rules.
pub mod Notes
pub mod NotedLines
pub mod Scans
pub mod Folds
pub mod Chosen
pub mod Asked
pub mod Barring
pub mod Fitted
