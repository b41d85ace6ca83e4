pub mod Acts
pub mod After
