pub mod KindOf
pub mod Writes
pub mod Equations
pub mod Tokens
pub mod Spelled
pub mod Loops
