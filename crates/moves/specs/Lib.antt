-- What the functions on the tables owe, over lists as the tables have them.
pub mod Scan
pub mod Wanted
pub mod Fitting
pub mod Noting
