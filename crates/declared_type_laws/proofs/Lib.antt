pub mod Subtypes
pub mod Start
pub mod Books
pub mod Interfaces
pub mod Whole
