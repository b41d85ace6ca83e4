pub mod Fields
pub mod Meanings
pub mod Reports
pub mod Said
pub mod Variables
