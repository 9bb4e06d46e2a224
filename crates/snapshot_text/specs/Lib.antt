pub mod Lines
pub mod Heads
pub mod Texts
