pub mod Booleans
pub mod Bytes
pub mod EveryByte
pub mod Words
