pub mod Allowed
pub mod Typing
pub mod Ways
pub mod Staying
