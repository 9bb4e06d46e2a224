-- Whether the calls of a log are one run.
pub mod Restores
pub mod Samples
pub mod Calls
pub mod Played
pub mod Late
pub mod Drifts
pub mod Starts
pub mod OneRun
pub mod States
pub mod Days
pub mod Outcomes
pub mod internals
