mod Giving
mod Taking
mod Tokens
mod Shelving
mod Passing
mod Ordering
mod Ruling
mod Choosing
