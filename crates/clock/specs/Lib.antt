pub mod Registers
pub mod Layout
pub mod Runs
