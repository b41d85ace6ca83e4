pub mod Findings
pub mod Homes
pub mod Notes
pub mod Texts
