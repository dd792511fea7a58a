-- What the reader and judge of sheets owes, over the definitions of the rules.
pub mod Frame
pub mod Reading
