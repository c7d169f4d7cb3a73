pub mod Fine
pub mod Outer
