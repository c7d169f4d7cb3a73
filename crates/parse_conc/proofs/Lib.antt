pub mod Waves
pub mod Choice
pub mod Ahead
pub mod ConcSound
pub mod ConcCover
pub mod Called
