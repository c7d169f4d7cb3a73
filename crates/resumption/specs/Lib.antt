pub mod Sleeps
pub mod Waits
pub mod Waiting
