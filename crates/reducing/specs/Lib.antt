pub mod Folding
pub mod Gathering
pub mod Laws
pub mod Sums
