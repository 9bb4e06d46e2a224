pub mod Making
pub mod Taking
pub mod Tracing
pub mod Watching
