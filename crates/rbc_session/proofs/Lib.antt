pub mod Records
pub mod Changes
pub mod SessionStates
