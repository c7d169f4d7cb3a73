pub mod Options
pub mod Pending
pub mod Same
pub mod Selectors
pub mod Steps
pub mod Thresholds
pub mod Times
