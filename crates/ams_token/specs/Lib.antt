pub mod Tables
pub mod Spelling
pub mod Classes
pub mod NameTable
