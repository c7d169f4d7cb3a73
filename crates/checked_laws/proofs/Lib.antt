pub mod Drivers
pub mod Whole
