pub mod Instances
pub mod Whole
