pub mod Crossed
pub mod Given
