pub mod Statements
pub mod Processes
