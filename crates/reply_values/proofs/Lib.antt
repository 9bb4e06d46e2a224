pub mod Whole
pub mod Putting
