pub mod SerialPort
pub mod RealTimeClock
pub mod ReachedClock
