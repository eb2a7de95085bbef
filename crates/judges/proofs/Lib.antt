pub mod Fits
pub mod MarkLaws
