pub mod Causes
pub mod Rerun
pub mod Printed
