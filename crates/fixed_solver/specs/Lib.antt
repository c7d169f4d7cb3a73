pub mod Counted
pub mod Solves
