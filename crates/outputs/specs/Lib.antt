pub mod Steps
pub mod Workers
