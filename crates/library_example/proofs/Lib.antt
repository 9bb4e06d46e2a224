pub mod Accepting
pub mod Publishing
pub mod FirstLease
pub mod Finding
pub mod HalfOwners
