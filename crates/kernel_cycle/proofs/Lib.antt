pub mod Fronts
pub mod Leaving
pub mod Beginning
pub mod Found
pub mod Starts
pub mod GoesOn
pub mod Runs
pub mod Marks
