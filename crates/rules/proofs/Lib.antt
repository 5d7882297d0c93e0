pub mod Tables
pub mod TypeRule
pub mod DeviceRule
pub mod EarlyRules
pub mod RowRule
pub mod Judging
pub mod Narrowing
