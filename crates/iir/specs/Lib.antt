pub mod Step
pub mod Runs
pub mod Nine
