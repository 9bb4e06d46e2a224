pub mod Calls
pub mod CallerReplies
pub mod Steps
