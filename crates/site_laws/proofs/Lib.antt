pub mod Fronts
pub mod Statements
pub mod Whole
