pub mod Shares
pub mod Loads
pub mod Books
pub use Rattle.machines.specs.Refusals
pub use Rattle.assignment.specs.Slices
pub use Rattle.assignment.specs.Owners
