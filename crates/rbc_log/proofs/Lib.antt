pub mod Growing
pub mod Copied
pub mod Refusals
pub mod SameLines
pub mod Sent
pub mod Sides
pub mod Merged
