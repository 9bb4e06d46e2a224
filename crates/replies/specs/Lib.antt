pub mod Keys
pub mod Jobs
pub mod WrittenLeases
pub mod Told
pub mod Lines
