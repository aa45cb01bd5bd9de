pub mod Inside
pub mod Lines
pub mod Said
