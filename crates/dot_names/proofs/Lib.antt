pub mod Appended
pub mod Equations
