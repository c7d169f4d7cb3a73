pub mod Names
pub mod Declarations
pub mod Ports
pub mod Interface
pub mod Actuals
pub mod Whole
