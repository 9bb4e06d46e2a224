pub mod Writes
pub mod internals
