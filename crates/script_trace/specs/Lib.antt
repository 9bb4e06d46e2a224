pub mod Steps
pub mod Lines
pub mod Handles
pub mod Tracers
pub mod Traces
pub mod internals
