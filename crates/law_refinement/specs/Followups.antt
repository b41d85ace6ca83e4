pub mod Borders
pub mod Shown
pub mod Announced
