pub mod Play
pub mod Kinds
pub mod Accounted
