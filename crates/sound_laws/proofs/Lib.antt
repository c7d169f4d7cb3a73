pub mod Values
pub mod Sound
