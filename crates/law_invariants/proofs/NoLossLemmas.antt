pub mod Rights
pub mod Outside
pub mod Tokens
pub mod Looked
pub mod Worlds
