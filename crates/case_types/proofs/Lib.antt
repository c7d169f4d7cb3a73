pub mod Chosen
pub mod Together
pub mod Vectors
