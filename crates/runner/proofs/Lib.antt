pub mod Fields
pub mod Inputs
pub mod Sound
pub mod Gaps
pub mod Completes
pub mod Facts
