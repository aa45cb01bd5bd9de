-- In the order of the proof: calls one register at a time, all calls, runs; then what is computed: each row shown, the chip by itself,
-- useful runs; last, what holds behind a first row.
pub mod Agreement
pub mod Reading
pub mod Receiving
pub mod Writing
pub mod Transmitting
pub mod Enabling
pub mod OnLine
pub mod Exact
pub mod Linked
pub mod Keeping
pub mod Alongside
pub mod Computing
pub mod Witness
pub mod Pinned
pub mod RunTest
pub mod Useful
pub mod Following
pub mod Behind
