pub mod Rows
pub mod Answers
pub mod Shown
