pub mod Lines
pub mod Part
pub mod Blocks
pub mod Told
