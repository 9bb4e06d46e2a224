pub mod Numbering
pub mod Outputs
pub mod Ending
pub mod Logs
pub mod Numerals
pub mod Runs
pub mod Words
