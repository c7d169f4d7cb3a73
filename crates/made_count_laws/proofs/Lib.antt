pub mod Parts
pub mod Subtypes
pub mod Books
pub mod Declarations
pub mod Interface
pub mod Simultaneous
pub mod Whole
