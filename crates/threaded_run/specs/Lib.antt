pub mod Few
pub mod Telling
