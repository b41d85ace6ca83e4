pub mod Bodies
pub mod Interlocking
