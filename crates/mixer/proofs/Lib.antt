pub mod Signs
pub mod Passes
