-- In the order to read them: what the bytes mean, what a call promises, when a form is refused; what the functions behind the calls promise.
pub mod Form
pub mod Calls
pub mod Outcomes
pub mod Inside
