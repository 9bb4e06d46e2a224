pub mod Equality
pub mod Leases
pub mod Rule
pub use Rattle.machines.specs.Refusals
pub use Rattle.slice_ranges.specs.Sets
