pub mod Writing
pub mod Numbers
pub mod Shapes
pub mod Nodes
pub mod Plans
