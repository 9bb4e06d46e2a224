pub mod LineSplitting
pub mod Saying
pub mod Parting
pub mod Naming
pub mod Extending
pub mod LineTaking
pub mod TokenText
