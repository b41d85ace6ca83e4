pub mod Freed
pub mod Runs
pub mod Held
pub mod Marks
