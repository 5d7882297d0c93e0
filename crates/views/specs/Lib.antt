pub mod Views
pub mod Numbers
pub mod Strides
pub mod Merging
pub mod Walks
