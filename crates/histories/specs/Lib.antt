-- In the order to read them: what the host does and which operations then count; the same as calls in memory.
pub mod History
pub mod Calls
