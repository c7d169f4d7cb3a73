pub mod Begins
pub mod Behind
pub mod ReadyAgain
