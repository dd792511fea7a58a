-- What the functions that write a selection's text owe, over lists as the tables have them.
pub mod Written
