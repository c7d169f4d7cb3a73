pub mod Placed
pub mod Sound
