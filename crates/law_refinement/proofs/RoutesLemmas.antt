pub mod Bodies
pub mod Rights
pub mod Refused
pub mod Interlocking
pub mod Told
pub mod Lending
pub mod Unkept
pub mod Homes
