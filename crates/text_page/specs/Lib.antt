pub mod Health
pub mod Metrics
pub mod Cells
pub mod Sections
