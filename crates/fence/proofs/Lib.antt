pub mod Every
pub mod Bytes
pub mod Shelving
pub mod Newest
pub mod Caring
