pub mod Machines
pub mod Answers
pub mod Watching
pub mod Clocks
