pub mod Reading
pub mod Sizes
pub mod Limits
pub mod Scans
pub mod Gaps
