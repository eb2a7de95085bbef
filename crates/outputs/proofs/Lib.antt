pub mod SumTurns
pub mod OutputJoins
