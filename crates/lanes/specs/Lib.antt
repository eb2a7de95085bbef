pub mod Four
pub mod Lanes
pub mod BandLanes
