pub mod Check
pub mod Meets
pub mod Listing
pub mod Verdicts
