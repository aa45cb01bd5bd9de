pub mod Reachable
pub mod Saved
