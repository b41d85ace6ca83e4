pub mod Missions
pub mod Borders
pub mod Passes
