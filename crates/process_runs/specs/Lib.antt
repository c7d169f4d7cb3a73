pub mod Called
pub mod Kept
pub mod Ran
pub mod Sleeping
