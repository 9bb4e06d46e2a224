pub mod Jobs
pub mod Snapshots
pub mod Readings
pub use Rattle.machines.specs.Numbers
pub use Rattle.machines.specs.Refusals
