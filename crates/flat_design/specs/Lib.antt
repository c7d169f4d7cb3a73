pub mod Limits
pub mod Lists
pub mod Reads
pub mod Order
pub mod Flat
