mod Adding
mod Breaking
mod Keeping
mod Leases
pub mod Lists
mod Serving
pub mod Tasks
