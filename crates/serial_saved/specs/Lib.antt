-- In the order to read them: what is saved and restored, what a call promises of the memory.
pub mod Saved
pub mod Calls
