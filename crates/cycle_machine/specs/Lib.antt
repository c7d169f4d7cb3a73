pub mod Held
pub mod MoveLaws
pub mod Moves
pub mod NextLaws
pub mod Ready
pub mod RunLaws
