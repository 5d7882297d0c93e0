pub mod Masks
pub mod Decoding
pub mod ByOperation
pub mod Outcomes
pub mod Facts
pub mod UnusedWords
pub mod Coded
