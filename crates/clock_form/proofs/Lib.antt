pub mod Numbers
pub mod Reading
pub mod Answers
pub mod RoundTrip
pub mod ByCalls
pub mod Every
