pub mod Units
pub mod Policy
pub mod Standing
pub use Rattle.law_trains.specs.Trains
