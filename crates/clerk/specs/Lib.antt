pub mod Steps
pub mod Calls
pub mod Memory
pub mod Knowledge
pub use Rattle.machines.specs.Refusals
pub use Rattle.assignment.specs.Slices
pub use Rattle.assignment.specs.Owners
