pub mod Asked
pub mod Notes
pub mod Steps
