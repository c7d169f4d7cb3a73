pub mod Telling
pub mod Giving
pub mod Running
pub mod Processes
pub mod Cycles
pub mod Meeting
