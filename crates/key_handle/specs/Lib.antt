pub mod Stamps
pub mod Handles
pub mod internals
pub use Rattle.slice_ranges.specs.Sets
pub use Rattle.slice_ranges.specs.Levels
