pub mod Parsing
pub mod Files
pub mod Whole
