pub mod Hash
pub mod Sets
pub mod Levels
pub mod Passing
pub mod internals
pub use Rattle.machines.specs.Refusals
