pub mod Ends
pub mod Rest
pub mod Fair
pub mod Prompt
