pub mod Like
pub mod Parts
pub mod Statements
