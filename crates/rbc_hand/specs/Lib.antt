pub mod Tokens
pub mod Hands
