pub mod Ending
pub mod Whole
pub mod Several
pub mod Jobs
pub mod Calls
pub mod Requests
pub mod Runs
