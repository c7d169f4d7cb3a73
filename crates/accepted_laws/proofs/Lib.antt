pub mod Instances
pub mod Readings
pub mod Selectors
pub mod Premises
pub mod Whole
