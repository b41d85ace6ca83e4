pub mod Inbox
pub mod Outgoing
pub mod Links
pub mod Posted
