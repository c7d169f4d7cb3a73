pub mod Notes
pub mod Drafts
