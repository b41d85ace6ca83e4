pub mod Ends
pub mod Session
pub mod Carried
pub mod Reading
pub mod Writing
pub mod Connections
