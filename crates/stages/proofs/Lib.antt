pub mod RowTurns
pub mod RowLaws
pub mod Moved
pub mod FrameLaws
pub mod Within
