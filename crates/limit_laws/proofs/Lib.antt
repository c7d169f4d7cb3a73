pub mod Statements
pub mod Equations
pub mod Whole
