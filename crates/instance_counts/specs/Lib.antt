pub mod Fewer
pub mod Passed
