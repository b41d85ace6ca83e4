pub mod Places
pub mod Receipts
pub mod Legal
pub mod Counting
pub mod Gathered
