-- In the order to read them: kinds, marks and raises; what the functions of the code promise.
pub mod Interrupts
pub mod Calls
