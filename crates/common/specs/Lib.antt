pub mod Answer
pub mod Bits
pub mod Bytes
pub mod Forms
pub mod Lists
