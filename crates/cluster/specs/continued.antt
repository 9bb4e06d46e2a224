pub mod Jobs
pub mod Deliveries
pub mod Replies
pub mod Runs
pub mod Memory
pub mod Clusters
pub mod Snapshots
