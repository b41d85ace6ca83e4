mod Cuts
pub mod Crashes
mod Orders
mod Played
