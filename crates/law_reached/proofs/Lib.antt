pub mod Known
pub mod Reached
pub mod Missions
pub mod OneCentreLemmas
