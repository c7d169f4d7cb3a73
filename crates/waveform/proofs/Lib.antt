pub mod Advance
pub mod Kept
pub mod Rising
