pub mod Values
pub mod Processes
