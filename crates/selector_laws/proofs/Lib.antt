pub mod Dots
pub mod Expressions
pub mod Parts
pub mod Statements
