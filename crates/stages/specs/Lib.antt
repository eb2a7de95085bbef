pub mod Lines
pub mod Steps
pub mod Frame
pub mod Settle
