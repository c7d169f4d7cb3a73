pub mod Induction
pub mod Limits
