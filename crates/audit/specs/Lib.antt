-- What callers are promised.
pub mod OneRun
pub mod Points
-- What the code is seen as.
pub mod Shown
