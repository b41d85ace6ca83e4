pub mod Kept
pub mod Broken
pub mod AnswersLemmas
pub mod QuietLemmas
