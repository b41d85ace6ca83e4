pub mod Facts
pub mod Requests
pub mod Answers
pub mod Standstill
