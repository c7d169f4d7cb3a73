pub mod Trace
pub mod Worked
