pub mod Lines
pub mod Tile
pub mod Behind
