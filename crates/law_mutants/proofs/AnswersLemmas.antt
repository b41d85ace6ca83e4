pub mod Kept
pub mod Broken
