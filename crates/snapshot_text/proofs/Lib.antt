pub mod Heads
pub mod Endings
pub mod Cuts
pub mod Places
pub mod Loops
pub mod Unique
