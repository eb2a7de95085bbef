pub mod Joined
pub mod Columns
pub mod Laws
pub mod Examples
