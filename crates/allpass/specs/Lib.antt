pub mod Passes
pub mod Stages
