pub mod Calls
pub mod Lines
pub mod Takings
pub mod Tracers
pub mod Traces
pub mod Serving
pub mod internals
