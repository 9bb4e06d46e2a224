pub mod Addresses
pub mod Lending
pub mod Returned
pub mod Places
pub mod Opened
pub mod Kinds
