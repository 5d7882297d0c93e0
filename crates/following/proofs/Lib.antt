pub mod Elements
pub mod Tracing
