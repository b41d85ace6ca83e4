pub mod Draws
pub mod Links
pub mod Storm
