pub mod Seen
pub mod Beginning
pub mod Driven
