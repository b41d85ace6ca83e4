pub mod History
pub mod Verdicts
pub mod Railways
