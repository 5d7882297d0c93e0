pub mod EndToEnd
pub mod Plans
pub mod Turns
pub mod OneMore
pub mod Gaps
pub mod Endings
