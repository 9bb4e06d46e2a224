pub mod Tasks
pub mod Clerks
pub mod Handles
pub mod Making
pub mod Refusals
