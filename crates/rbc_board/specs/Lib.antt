pub mod Known
pub mod InStep
pub mod Ties
