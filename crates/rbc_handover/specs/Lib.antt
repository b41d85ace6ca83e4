pub mod Handings
pub mod Giving
pub mod Acceptings
pub mod Expectations
