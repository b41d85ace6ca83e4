pub mod Promised
pub mod Arrival
pub mod Apart
