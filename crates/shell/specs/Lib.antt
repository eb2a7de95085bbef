pub mod Settings
pub mod Frames
pub mod Counts
pub mod Refused
