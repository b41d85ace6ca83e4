pub mod Lane
pub mod Row
