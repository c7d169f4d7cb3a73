pub mod Appended
pub mod Nodes
pub mod Sound
pub mod Values
pub mod Whole
