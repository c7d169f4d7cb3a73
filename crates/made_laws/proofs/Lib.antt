pub mod Endings
pub mod Declared
pub mod Whole
