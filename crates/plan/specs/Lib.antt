pub mod Operations
pub mod Types
pub mod Words
pub mod Answers
pub mod Coded
