pub mod Generics
pub mod Ports
pub mod Whole
