pub mod Commands
pub mod Deliveries
pub mod Flights
pub mod Running
pub mod Safe
pub mod Script
pub mod Trains
