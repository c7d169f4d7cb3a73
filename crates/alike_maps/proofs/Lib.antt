pub mod Maps
pub mod Electrical
pub mod Whole
