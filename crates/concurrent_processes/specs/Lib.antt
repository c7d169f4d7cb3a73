pub mod Assignments
pub mod Breaks
