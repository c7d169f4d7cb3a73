pub mod Attempting
pub mod Solved
pub mod Start
