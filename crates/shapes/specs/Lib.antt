pub mod Rows
pub mod Rules
pub mod Sources
pub mod Coordinates
pub mod Shown
