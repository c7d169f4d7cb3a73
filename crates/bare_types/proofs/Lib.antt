pub mod Levels
pub mod WrongNames
