pub mod Members
pub mod Notes
pub mod Steps
pub mod Reading
