pub mod Tables
pub mod Sound
pub mod Facts
pub mod Readback
pub mod Floors
pub mod Gathering
