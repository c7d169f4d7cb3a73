pub mod Binary
pub mod Holds
pub mod Whole
pub mod Zeros
