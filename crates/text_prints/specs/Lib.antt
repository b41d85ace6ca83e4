pub mod Events
pub mod Parts
pub mod Exchanges
pub mod Readers
pub mod Capture
pub use Rattle.text_script.specs.rbc_world as rbc_world
