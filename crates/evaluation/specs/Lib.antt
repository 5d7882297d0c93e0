pub mod Standing
pub mod Ready
pub mod Spread
