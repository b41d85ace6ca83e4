pub mod Causes
pub mod Moves
pub mod Acts
pub mod Messages
pub mod Steps
pub mod Frames
pub mod FrameAnswers
