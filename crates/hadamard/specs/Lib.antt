pub mod Mix
pub mod Rows
pub mod Examples
