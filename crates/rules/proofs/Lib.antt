-- The theorems about the rules. A reader opens Theorems first.
pub mod Theorems
pub mod Lists
pub mod Readers
pub mod Reading
pub mod Written
pub mod SheetText
pub mod SelectionText
pub mod Selections
pub mod Partials
pub mod Searches
pub mod Certificates
pub mod Incompatibilities
pub mod Sheets
pub mod Bench
