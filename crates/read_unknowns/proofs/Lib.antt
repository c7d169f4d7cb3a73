pub mod Unread
pub mod AskedLoop
