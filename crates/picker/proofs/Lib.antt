-- Lemmas that the proofs of this crate share, and what the ways out of a pick owe.
pub mod Stored
pub mod Sheets
pub mod Numbers
pub mod Checks
pub mod Readings
pub mod Outcomes
pub mod Answers
pub mod Judgements
pub mod ToldLines
