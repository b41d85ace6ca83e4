pub mod Receipts
pub mod Faults
pub mod Commit
pub mod Node
pub mod Counted
pub mod Sent
pub mod Gather
pub mod Look
