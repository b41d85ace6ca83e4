pub mod Bytes
pub mod Shown
