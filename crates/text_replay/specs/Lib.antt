pub mod Auditing
pub mod Comparing
pub mod Stretches
pub mod Noted
pub mod Turned
pub mod Told
