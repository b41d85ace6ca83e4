pub mod Trains
pub mod Scenes
