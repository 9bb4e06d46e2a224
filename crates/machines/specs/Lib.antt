pub mod Numbers
pub mod Refusals
pub mod Answers
pub mod Calls
pub mod Machines
