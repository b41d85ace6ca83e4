pub mod Fields
pub mod Bytes
mod Rows
mod Words
