pub mod Lists
pub mod Maps
pub mod Fronts
pub mod Views
pub mod Dangers
pub mod Verdicts
