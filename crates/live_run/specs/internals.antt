-- What private functions and proofs speak of, and no clause of a public call.
pub mod Notes
pub mod Callers
pub mod LiveTasks
pub mod OpenedRuns
