-- In the order to read them, behind the rooms (interrupts, line_status, modem, ring): the port made of them, how it lies in memory, what a
-- call promises.
pub mod Port
pub mod Layout
pub mod Calls
pub mod Inside
