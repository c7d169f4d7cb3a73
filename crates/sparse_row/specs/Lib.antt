pub mod Entries
pub mod Row
pub mod Passes
pub mod Reads
