pub mod Chunks
pub mod Reading
pub mod Floats
pub mod Promises
pub mod Examples
pub mod Workers
