pub mod Values
pub mod Refusals
pub mod Replies
pub mod Answered
