pub mod Ring
pub mod Calls
pub mod RingLaw
pub mod Examples
