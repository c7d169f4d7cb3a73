pub mod Replays
pub mod Reaching
