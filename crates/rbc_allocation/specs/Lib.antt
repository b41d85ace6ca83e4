pub mod Marks
pub mod Sections
