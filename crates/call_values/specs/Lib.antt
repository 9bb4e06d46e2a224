pub mod Told
pub mod Calls
pub mod Words
pub mod Steps
