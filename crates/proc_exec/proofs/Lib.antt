pub mod Fronts
pub mod Performing
pub mod Stepping
pub mod Runs
