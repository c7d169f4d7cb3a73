pub mod Alternatives
pub mod Branches
pub mod Executed
pub mod Waves
