pub mod Members
pub mod Called
pub mod Reaching
