pub mod Outside
pub mod Scenes
