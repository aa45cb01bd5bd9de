-- Laws of the rooms, then of the memory, then what each answer of the code is in the definition, then the runs.
pub mod Leaves
pub mod Addressing
pub mod Registers
pub mod Sizes
pub mod Answering
pub mod Emptying
pub mod Reading
pub mod Receiving
pub mod Looping
pub mod Quiet
pub mod Sending
pub mod Enabling
pub mod Flushing
pub mod Bounds
pub mod Examples
