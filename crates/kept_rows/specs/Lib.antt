pub mod Held
pub mod Told
pub mod Whole
pub mod Sound
pub mod Joined
