pub mod Restored
pub mod Histories
pub mod Called
pub mod Line
