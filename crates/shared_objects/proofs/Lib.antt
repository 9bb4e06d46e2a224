pub mod Naming
pub mod Replying
pub mod Writing
