pub mod Local
pub mod Stays
