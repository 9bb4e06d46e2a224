pub mod Jobs
pub mod Lines
pub mod Inputs
pub mod Status
