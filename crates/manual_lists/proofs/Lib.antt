-- The lists of each device, a theorem for each, written by lists/manual.py.
pub mod Serial
pub mod Clock
pub mod Resets
pub mod Passing
