-- What callers are promised.
pub mod LiveJobs
pub mod Reports
pub mod internals
