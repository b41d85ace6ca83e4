pub mod Lists
pub mod Hands
pub mod HomeParts
pub mod Loans
pub mod Returns
pub mod Borders
