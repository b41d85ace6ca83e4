pub mod Meets
pub mod Announced
pub mod Abstraction
pub mod Followups
pub mod Missions
pub mod Handovers
pub mod Routes
pub mod Sessions
