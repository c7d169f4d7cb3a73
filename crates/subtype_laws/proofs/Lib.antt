pub mod Growth
pub mod Indications
pub mod Values
