mod Saying
mod Answering
pub mod Once
