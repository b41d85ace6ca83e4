pub mod Reasons
pub mod Desks
pub mod Tellings
pub mod SessionStates
pub mod Sayings
pub mod Letters
pub mod Trains
pub mod Desk
pub mod Bordering
pub mod Arriving
pub mod Standstill
pub mod Starts
pub mod Homes
pub mod Guards
pub mod Written
pub use Rattle.rbc_allocation.specs as rbc_allocation
pub use Rattle.rbc_mission.specs as rbc_mission
pub use Rattle.rbc_pending_start.specs as rbc_pending_start
pub use Rattle.rbc_place.specs as rbc_place
pub use Rattle.rbc_shorten.specs as rbc_shorten
