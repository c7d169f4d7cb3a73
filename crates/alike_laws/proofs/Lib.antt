pub mod Notes
pub mod Scopes
pub mod Start
pub mod Steps
pub mod Attributes
pub mod Reading
pub mod Whole
