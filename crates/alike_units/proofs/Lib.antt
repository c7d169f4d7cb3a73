pub mod Before
pub mod Faults
pub mod Interfaces
pub mod Statements
pub mod Units
pub mod Whole
