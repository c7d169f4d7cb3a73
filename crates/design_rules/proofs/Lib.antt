pub mod Each
pub mod Counts
pub mod Ways
pub mod Worked
