pub mod Terms
pub mod Actions
