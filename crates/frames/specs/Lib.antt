-- What the functions on frames owe, over the definitions of the rules.
pub mod Numbers
pub mod Digits
pub mod Kinds
pub mod Faults
pub mod Texts
