pub mod ColumnLaws
pub mod TileLaws
pub mod TileTurns
pub mod RowTurns
pub mod BehindLaws
pub mod BehindTurns
