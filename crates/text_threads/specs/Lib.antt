pub mod Told
pub mod TextThreads
