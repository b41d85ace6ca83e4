pub mod Pages
pub mod Rows
pub mod Splits
pub mod Joins
mod Moves
pub mod Writes
pub mod Neighbours
pub mod Appends
pub mod Sheets
pub mod Alone
