pub mod Printed
pub mod Safe
pub mod Named
