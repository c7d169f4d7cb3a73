pub mod Choosing
pub mod Solving
