pub mod Handing
pub mod LadderLength
pub mod Ladders
pub mod Replaying
