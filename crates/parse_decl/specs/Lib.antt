pub mod Parsing
pub mod Firsts
