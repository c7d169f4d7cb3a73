pub mod Correcting
pub mod Lengths
pub mod Rounding
pub mod Keeping
