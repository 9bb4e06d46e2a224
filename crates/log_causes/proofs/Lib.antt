pub mod Judged
pub mod Opening
pub mod Hinting
pub mod Counting
pub mod Breaking
pub mod Telling
pub mod Passing
