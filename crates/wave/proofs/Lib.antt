pub mod Examples
pub mod Fronts
pub mod Readings
pub mod Shorts
pub mod Turning
pub mod Walking
pub mod Names
