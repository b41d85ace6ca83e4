pub mod GivenSections
pub mod Waits
pub mod Frees
pub mod OwnFrees
pub mod Words
pub mod Promised
pub mod Loop
