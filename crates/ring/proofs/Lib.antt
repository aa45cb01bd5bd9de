-- Laws of a ring of any number of places; how bytes leave its order.
pub mod Laws
pub mod Unrolling
