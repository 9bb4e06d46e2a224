pub mod Records
pub mod internals
