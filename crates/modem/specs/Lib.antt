pub mod Modem
