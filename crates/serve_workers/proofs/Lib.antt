mod Turns
mod Carried
pub mod ReadingLemmas
pub mod WritingLemmas
