-- What is found of the calls of a log beyond the first wrong reply.
pub mod WrongReplies
-- What is written of the calls.
pub mod Standing
pub mod Counts
pub mod Reports
-- What is written of samples and of writes.
pub mod DriftReports
pub mod FenceReports
pub mod Audits
