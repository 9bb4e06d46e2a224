-- Why a caller should have got another reply.
pub mod Broken
pub mod Causes
pub mod Refusals
pub mod Questions
-- What is found of the calls of a log.
pub mod Audited
pub mod Hints
-- Who took the calls, and how their replies are judged.
pub mod Callers
pub mod Coarse
pub mod internals
