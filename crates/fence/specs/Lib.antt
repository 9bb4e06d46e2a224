pub mod Tokens
pub mod Giving
pub mod Requests
pub mod Shelves
