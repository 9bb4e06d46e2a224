pub mod Rising
pub mod Turning
pub mod Comparing
pub mod Replaying
pub mod Splitting
pub mod Answering
