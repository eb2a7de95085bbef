pub mod Judges
pub mod Marks
pub mod Turns
