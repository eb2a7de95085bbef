pub mod Judges
pub mod Levels
