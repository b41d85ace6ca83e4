pub mod Posts
pub mod Dispatches
pub mod Listed
pub mod Reached
pub mod Sent
pub mod Rooms
pub mod Views
pub mod State
pub mod Kept
pub mod States
pub mod Answer
pub mod Ranges
pub mod Taken
pub use Rattle.rbc_train.specs.rbc_place as rbc_place
pub use Rattle.rbc_session.specs as rbc_session
pub use Rattle.rbc_train.specs.rbc_shorten as rbc_shorten
pub use Rattle.rbc_train.specs as rbc_train
