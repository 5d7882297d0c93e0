pub mod Walks
pub mod Viewing
