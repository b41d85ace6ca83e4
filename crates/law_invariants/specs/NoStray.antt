pub mod Due
pub mod Questions
