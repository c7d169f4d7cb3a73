pub mod Resumed
pub mod Held
pub mod Kept
pub mod InText
