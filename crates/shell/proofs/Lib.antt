pub mod Filled
pub mod Left
pub mod Said
pub mod SeventySix
pub mod Eight
pub mod Steady
