pub mod Branches
pub mod Enumerations
pub mod Objects
pub mod Steps
pub mod Whole
