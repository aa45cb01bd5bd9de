pub mod Restoring
pub mod Reachable
pub mod Exact
pub mod Saving
