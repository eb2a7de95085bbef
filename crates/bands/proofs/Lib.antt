pub mod Bounds
pub mod Tail
