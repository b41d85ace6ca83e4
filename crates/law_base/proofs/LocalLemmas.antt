pub mod Stays
pub mod Worlds
pub mod Entries
pub mod Homes
pub mod Changes
pub mod Missions
pub mod Reports
pub mod Steps
