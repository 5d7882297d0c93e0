pub mod Scanning
pub mod Nodes
