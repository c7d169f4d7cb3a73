pub mod Notes
pub mod Fields
