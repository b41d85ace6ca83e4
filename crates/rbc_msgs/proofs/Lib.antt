pub mod Spelled
pub mod TrainLaws
pub mod TrainParts
pub mod TrackParts
pub mod TrackLaws
mod Further
mod Kept
pub mod Needed
mod SameBits
pub mod Streams
pub mod OneReading
mod NotShort
mod FirstFault
mod Placed
