pub mod Terms
pub mod Rows
pub mod Calls
pub mod Texts
pub mod Keeping
pub mod Saving
