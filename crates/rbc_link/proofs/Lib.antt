pub mod Frames
pub mod Changes
pub mod Posted
