pub mod Alongside
