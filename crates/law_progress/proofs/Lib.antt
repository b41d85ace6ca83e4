pub mod Announced
pub mod Kept
pub mod Places
pub mod Messages
pub mod Rounds
pub mod RestLemmas
pub mod FairLemmas
pub mod PromptLemmas
