pub mod Places
pub mod Unsent
pub mod Calls
pub mod Faults
pub mod Texts
pub mod Endings
pub mod Traces
