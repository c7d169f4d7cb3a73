pub mod Predefined
