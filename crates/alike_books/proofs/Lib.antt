pub mod Before
pub mod Parts
pub mod Names
pub mod Objects
pub mod Branches
pub mod Declarations
pub mod Whole
