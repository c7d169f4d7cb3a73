pub mod Coming
pub mod Performing
