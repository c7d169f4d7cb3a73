pub mod Counts
pub mod Architectures
