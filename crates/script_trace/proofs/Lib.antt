pub mod Asking
pub mod Processes
pub mod Following
pub mod Reasoning
pub mod Holding
pub mod Giving
pub mod Owning
pub mod Playing
