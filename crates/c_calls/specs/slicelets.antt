pub mod Leases
pub mod Calls
pub mod Releases
pub mod Keys
pub mod KeyHandles
pub mod SliceKeys
pub mod PermittedKeys
pub mod Processes
