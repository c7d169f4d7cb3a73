pub mod Constants
pub mod Slopes
pub mod Filled
pub mod Branches
