pub mod Cutting
mod Finding
pub mod Lines
