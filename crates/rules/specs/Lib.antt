-- The rules of the picker, as definitions: what a reader has to believe. Read them in this order.
pub mod Lists
pub mod Lines
pub mod Frames
pub mod Catalogue
pub mod Selection
pub mod Search
pub mod Sheet
pub mod Promises
pub mod Samples
