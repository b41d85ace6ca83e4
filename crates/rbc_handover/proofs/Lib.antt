pub mod Gives
pub mod Expects
pub mod TakesOver
