pub mod Subtypes
