pub mod Bits
pub mod InRange
pub mod Parts
