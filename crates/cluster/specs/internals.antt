pub mod Proposals
pub mod Turns
pub mod Resuming
