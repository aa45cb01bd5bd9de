pub mod Answering
mod Handed
pub mod Handing
pub mod Once
pub mod Running
pub mod Turning
