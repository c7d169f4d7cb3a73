pub mod Allowed
pub mod Ready
