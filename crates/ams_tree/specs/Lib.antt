pub mod Rule
pub mod Terminals
pub mod Expressions
pub mod Declarations
pub mod Statements
pub mod Concurrents
pub mod Designs
pub mod Answer
