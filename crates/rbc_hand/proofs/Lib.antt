pub mod Ends
pub mod Grows
