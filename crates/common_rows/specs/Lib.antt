pub mod Forms
pub mod Entries
pub mod Prepared
