pub mod Values
pub mod Processes
pub mod Maps
pub mod Whole
