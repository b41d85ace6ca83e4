pub mod Arrival
pub mod Meeting
pub mod Received
pub mod Scenes
