pub mod UnitState
pub mod Layout
pub mod Fresh
pub mod Range
pub mod Room
pub mod Outcome
