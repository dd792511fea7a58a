-- What the tables owe, over the definitions of the rules.
pub mod Frame
pub mod Tables
pub mod Tidy
pub mod Lent
