pub mod Trains
