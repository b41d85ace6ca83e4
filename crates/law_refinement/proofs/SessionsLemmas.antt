pub mod Changes
pub mod Data
pub mod Ends
pub mod Begins
pub mod Starts
