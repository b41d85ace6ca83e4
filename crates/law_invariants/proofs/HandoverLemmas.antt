pub mod Kept
pub mod Orderly
pub mod Handing
pub mod Taking
pub mod Moves
pub mod Frames
pub mod Steps
pub mod Worlds
