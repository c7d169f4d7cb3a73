pub mod Parts
pub mod Declarations
pub mod Statements
pub mod Concurrents
pub mod Designs
