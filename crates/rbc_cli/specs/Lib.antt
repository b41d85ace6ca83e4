pub mod Addresses
pub mod Endings
pub mod Ports
pub mod Starts
pub mod Stops
