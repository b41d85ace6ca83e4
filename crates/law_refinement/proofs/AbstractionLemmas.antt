pub mod Shows
pub mod Hands
pub mod Missions
pub mod Marks
