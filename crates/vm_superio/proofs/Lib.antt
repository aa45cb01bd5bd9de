-- In the order of the proof: marks and raises, what fetching leaves, what stays the same, the rows at each call, runs; then what is
-- computed, and what is restored.
pub mod Marks
pub mod Raising
pub mod Draining
pub mod Twins
pub mod Keeping
pub mod Counting
pub mod Counts
pub mod Writing
pub mod Identifying
pub mod Exact
pub mod Runs
pub mod Computing
pub mod Shown
pub mod Pinned
pub mod Reached
pub mod Restored
