pub mod Follows
pub mod Kept
pub mod Moves
pub mod ProcessPlace
