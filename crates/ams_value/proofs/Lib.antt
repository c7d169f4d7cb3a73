pub mod Vectors
pub mod Times
pub mod Powers
pub mod Typed
pub mod Ranged
