pub mod Flags
pub mod Lines
