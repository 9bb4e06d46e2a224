pub mod Ahead
pub mod Answers
pub mod Placing
pub mod Refusing
