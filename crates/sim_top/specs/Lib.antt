pub mod Outcome
pub mod Points
pub mod Whole
