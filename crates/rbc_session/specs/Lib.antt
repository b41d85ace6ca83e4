pub mod Sessions
pub mod Session
pub mod SessionStates
