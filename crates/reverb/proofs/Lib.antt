pub mod FilterTurns
pub mod WholeParts
pub mod SeveralParts
pub mod SeveralTurns
