pub mod More
pub mod Declared
pub mod Equations
pub mod Stated
pub mod Concurring
pub mod Designed
