pub mod Sums
pub mod Network
pub mod Resource
pub mod Places
pub mod Runs
pub mod Chain
pub mod Coin
