pub mod Evidence
pub use Rattle.grants.specs.Policies
