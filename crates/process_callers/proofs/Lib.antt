pub mod Putting
pub mod Having
pub mod Hearing
