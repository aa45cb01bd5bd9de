-- In the order of the proof: seconds, calls one register at a time and all of them, runs; then what is computed.
pub mod Seconds
pub mod Exact
pub mod Alongside
pub mod Computing
pub mod Witness
pub mod Pinned
pub mod Useful
