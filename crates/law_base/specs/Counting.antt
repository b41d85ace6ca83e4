pub mod Sums
pub mod Network
pub mod Resource
pub mod Sections
pub mod Chain
pub mod Sweep
pub mod Coin
