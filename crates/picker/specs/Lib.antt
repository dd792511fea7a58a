-- What a call of pick owes (Entry) and one of check (Checking), and the terms that their parts owe.
pub mod Entry
pub mod Checking
pub mod Inside
pub mod Written
