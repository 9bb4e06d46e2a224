pub mod Requests
pub mod Care
pub mod Stores
pub mod Points
pub mod Examples
