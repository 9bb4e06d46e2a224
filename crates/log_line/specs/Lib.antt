-- What the lines of a log say.
pub mod Extensions
pub mod Keys
pub mod OwnCalls
pub mod MessageCalls
pub mod Lines
pub mod Writes
pub mod Files
pub mod Readers
pub mod Calls
-- What is told of a call.
pub mod Told
pub mod Sent
pub mod internals
