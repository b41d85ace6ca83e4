pub mod Sorted
pub mod Merged
pub mod Numbered
pub mod BeginningsLemmas
