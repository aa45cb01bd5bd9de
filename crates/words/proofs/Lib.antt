mod Decimals
pub mod Patterns
mod Digits
mod Pairs
pub mod Saying
