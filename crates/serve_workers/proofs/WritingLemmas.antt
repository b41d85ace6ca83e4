pub mod Lane
pub mod Waiting
pub mod Written
