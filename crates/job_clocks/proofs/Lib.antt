pub mod Timing
pub mod Telling
