pub mod Laws
pub mod Turns
pub mod Lists
pub mod Rows
pub mod Stacked
pub mod Clauses
