pub mod Moves
pub mod Bands
