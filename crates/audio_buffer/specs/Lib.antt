pub mod Verdict
pub mod Judges
pub mod Layout
