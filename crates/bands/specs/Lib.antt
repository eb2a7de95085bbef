pub mod Times
pub mod Tail
