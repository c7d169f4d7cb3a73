pub mod Waves
pub mod Equivalent
pub mod Whole
