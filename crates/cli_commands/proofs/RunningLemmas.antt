pub mod Prints
pub mod Named
pub mod Safe
