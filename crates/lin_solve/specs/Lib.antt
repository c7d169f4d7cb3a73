pub mod Codes
pub mod Elimination
pub mod Entries
pub mod Laws
pub mod System
