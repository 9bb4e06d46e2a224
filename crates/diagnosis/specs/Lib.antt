pub mod Faults
pub mod Sayings
