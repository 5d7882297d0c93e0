pub mod Powers
pub mod Raised
