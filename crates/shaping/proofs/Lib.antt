pub mod Counts
pub mod Axes
pub mod Alignment
pub mod Flags
pub mod Rule8
