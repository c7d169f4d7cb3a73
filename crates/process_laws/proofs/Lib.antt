pub mod Places
pub mod Moves
pub mod GoOn
pub mod HeldMoves
pub mod HeldOn
pub mod KeptOn
pub mod InText
