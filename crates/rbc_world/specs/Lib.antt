pub mod Views
pub mod Answers
pub mod States
pub mod Reached
pub mod Stepped
pub mod World
pub mod View
pub mod Missions
pub mod Named
pub use Rattle.rbc_book.specs as rbc_book
pub use Rattle.rbc_centre.specs as rbc_centre
pub use Rattle.rbc_centre.specs.rbc_train as rbc_train
