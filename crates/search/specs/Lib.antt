-- What the search's functions owe: the record of choices, and the search as place and trial make it.
pub mod Choosing
pub mod Walking
