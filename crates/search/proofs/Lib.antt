-- Lemmas that the proofs of this crate share, and what its answers mean by the rules.
pub mod Newest
pub mod Walks
pub mod Follows
pub mod Ends
pub mod Start
pub mod Searched
