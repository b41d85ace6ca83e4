pub mod Idle
pub mod InTurn
pub mod Fair
