pub mod Lowest
pub mod Results
pub mod Rows
