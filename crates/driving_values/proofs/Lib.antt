pub mod Steps
pub mod Changing
pub mod Events
pub mod Loop
