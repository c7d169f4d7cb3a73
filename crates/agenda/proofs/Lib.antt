pub mod Keys
pub mod Earliest
