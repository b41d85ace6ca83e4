pub mod Intake
pub mod Rates
