pub mod Codes
pub mod Agreement
