pub mod Inputs
pub mod Run
