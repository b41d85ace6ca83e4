pub mod Bodies
pub mod Frames
pub mod Readings
