-- What the functions on rows owe, what a row stands for, and what its laws say.
pub mod Bits
pub mod Area
pub mod Needed
pub mod Derived
pub mod Stands
pub mod Laws
