pub mod Binary32
pub mod Answers
pub mod Lists
pub mod Sizes
