pub mod Filled
pub mod Structural
