pub mod Tables
pub mod Nodes
pub mod Sound
pub mod Facts
pub mod Stacks
