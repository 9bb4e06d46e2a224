pub mod Asked
pub mod LiveTaskMembers
pub mod Keeping
pub mod Lanes
pub mod Noting
pub mod Quiet
pub mod OpenedRunPasses
