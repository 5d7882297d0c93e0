pub mod Facts
pub mod Reading
pub mod Bounds
pub mod Storing
pub mod Editions
pub mod Unpacking
pub mod Limits
pub mod Prefix
