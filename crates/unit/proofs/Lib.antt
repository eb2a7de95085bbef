pub mod Laws
pub mod Outcomes
pub mod Totals
pub mod PlaceLaws
pub mod Ranges
