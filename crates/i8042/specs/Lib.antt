pub mod I8042
