pub mod Instances
pub mod Behind
pub mod Whole
