pub mod Lists
pub mod Around
pub mod Leaves
pub mod Branches
pub mod Whole
