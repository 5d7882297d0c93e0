pub mod Folds
pub mod Rooms
pub mod Rows
