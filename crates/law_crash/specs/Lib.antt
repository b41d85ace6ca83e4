pub mod Crashes
pub mod Scenes
