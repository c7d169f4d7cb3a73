pub mod Ending
pub mod Giving
pub mod Kept
pub mod Laws
pub mod States
