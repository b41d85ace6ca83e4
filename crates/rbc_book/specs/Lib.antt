pub mod Entries
pub mod Sheet
pub mod Runs
pub mod Edits
pub mod Book
pub mod Claim
pub mod Answers
pub mod Changes
