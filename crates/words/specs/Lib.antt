pub mod Decimal
pub mod Hex
pub mod Pattern
pub mod Put
pub mod Text
