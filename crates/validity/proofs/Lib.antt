pub mod Clearing
pub mod Rows
