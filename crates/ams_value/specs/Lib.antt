pub mod Ranges
pub mod Types
pub mod Values
pub mod Results
pub mod Laws
