pub mod Places
pub mod Loading
pub mod Totals
pub mod Counting
