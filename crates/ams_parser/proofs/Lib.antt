pub mod Turns
pub mod PathTurns
pub mod UnitCover
pub mod UnitSound
pub mod FileCover
pub mod FileSound
pub mod Whole
pub mod Called
