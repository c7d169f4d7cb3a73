pub mod Codes
pub mod Waves
