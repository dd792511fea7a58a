-- What the programs read and write.
pub mod Answer
pub mod Input
