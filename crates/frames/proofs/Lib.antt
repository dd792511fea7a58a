-- Lemmas that the proofs of this crate share, and laws for the readers of the next layer.
pub mod Pairs
pub mod Areas
pub mod Lines
pub mod InLine
pub mod Judged
pub mod Taken
pub mod Steps
pub mod Read
