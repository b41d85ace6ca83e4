pub mod Causes
pub mod Reruns
