-- Whether the writes in logs obey the law of fencing tokens.
pub mod Given
pub mod Turns
pub mod Faults
