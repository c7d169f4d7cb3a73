pub mod Functions
pub mod Types
pub mod Typing
