pub mod Alike
pub mod Bytes
pub mod Answered
