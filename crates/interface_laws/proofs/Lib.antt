pub mod Actuals
pub mod Generics
pub mod Matches
pub mod Ports
pub mod Whole
