pub mod Small
pub mod Past
pub mod Rules
pub mod Answers
pub mod Quiet
