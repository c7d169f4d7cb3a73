pub mod Room
pub mod Stepped
