pub mod Breaks
pub mod Steps
pub mod Reading
