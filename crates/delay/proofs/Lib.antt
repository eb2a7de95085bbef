pub mod Views
pub mod Straight
pub mod Laws
pub mod RingLaw
pub mod Examples
