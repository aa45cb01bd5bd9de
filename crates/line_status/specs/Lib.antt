pub mod LineStatus
