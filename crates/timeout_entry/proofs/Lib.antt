pub mod States
pub mod Entering
