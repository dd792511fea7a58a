-- What the reader of catalogues owes, over the definitions of the rules.
pub mod Reading
