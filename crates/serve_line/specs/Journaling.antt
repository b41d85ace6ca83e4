pub mod Beginning
pub mod Keeping
pub mod Noting
pub mod Resuming
pub mod Times
pub mod Waiting
