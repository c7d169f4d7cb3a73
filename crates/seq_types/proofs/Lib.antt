pub mod Folds
pub mod Lengths
pub mod Steps
