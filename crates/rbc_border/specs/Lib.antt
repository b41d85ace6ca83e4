pub mod Names
pub mod Homes
pub mod Lending
pub mod Border
