pub mod Heads
pub mod Announced
pub mod TakenUp
pub mod Yielded
