pub mod Places
pub mod Filled
pub mod Elements
pub mod Steps
