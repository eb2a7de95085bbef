pub mod LineLaws
pub mod LineTurns
pub mod LineFills
pub mod RowJoins
pub mod FrameParts
pub mod Room
pub mod RowsOf
