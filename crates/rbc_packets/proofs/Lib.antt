pub mod Again
pub mod TrackAgain
