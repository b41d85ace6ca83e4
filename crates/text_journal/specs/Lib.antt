pub mod Journal
pub mod LineText
pub mod Order
pub mod Reading
pub mod Whole
