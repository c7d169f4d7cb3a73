pub mod Asked
pub mod Unread
