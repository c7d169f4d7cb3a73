pub mod Flat
pub mod Literals
pub mod Operators
pub mod Names
pub mod Attributes
pub mod Typing
