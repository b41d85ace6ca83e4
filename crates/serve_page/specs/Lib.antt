pub mod Requests
pub mod Replies
