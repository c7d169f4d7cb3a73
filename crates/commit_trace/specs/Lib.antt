pub mod Added
pub mod Room
