-- Laws of the test for reachable ports, of the raises; what each answer of the two calls is; what holds across
-- both.
pub mod Testing
pub mod Raising
pub mod Bringing
pub mod Saving
