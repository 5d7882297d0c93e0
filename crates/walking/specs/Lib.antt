pub mod Alike
pub mod Movements
