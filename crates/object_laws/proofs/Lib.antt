pub mod Adding
pub mod Declarations
pub mod Interface
pub mod Ports
