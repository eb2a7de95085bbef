pub mod Stages
pub mod ByFours
