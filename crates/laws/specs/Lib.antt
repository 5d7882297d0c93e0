pub mod Integers
pub mod Lists
pub mod Numbering
pub mod Store
pub mod Pieces
