pub mod Levels
pub mod PartsCover
pub mod PartsSound
