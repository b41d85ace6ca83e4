pub mod Bodies
pub mod FrameView
pub mod Kinds
pub mod Spelling
pub mod Faults
pub mod FaultNumbers
pub mod Raw
