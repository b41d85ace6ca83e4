pub mod Script
pub mod Entries
pub mod Played
pub mod Status
pub mod Print
pub use Rattle.rbc_world.specs.rbc_book as rbc_book
pub use Rattle.rbc_world.specs.rbc_centre as rbc_centre
pub use Rattle.rbc_world.specs as rbc_world
