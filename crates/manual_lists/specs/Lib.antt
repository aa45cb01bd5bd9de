-- For each device: what the manual's column of a list says, and the lists, which lists/manual.py writes.
pub mod Serial
pub mod SerialLists
pub mod Clock
pub mod ClockLists
pub mod Resets
pub mod ResetsLists
