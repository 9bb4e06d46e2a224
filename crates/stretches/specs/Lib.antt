pub mod Stretches
pub mod Tasks
pub mod Breaks
pub mod internals
