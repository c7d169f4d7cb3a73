pub mod Entries
pub mod PortLists
pub mod ReadOnce
