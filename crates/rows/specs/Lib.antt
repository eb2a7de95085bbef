pub mod Rows
pub mod Fits
pub mod Reads
pub mod Steps
pub mod Parts
pub mod Workers
