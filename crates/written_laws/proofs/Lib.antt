pub mod Lists
pub mod Statements
pub mod Concurrents
pub mod Files
