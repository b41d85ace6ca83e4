pub mod Longest
pub mod TrackEnd
pub mod CoveredSections
