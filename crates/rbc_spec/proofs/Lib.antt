pub mod Convex
pub mod Sums
pub mod Places
pub mod Held
pub mod Safe
pub mod Lists
pub mod Runs
pub mod Worlds
