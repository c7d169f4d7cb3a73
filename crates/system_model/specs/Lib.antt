pub mod System
pub mod Trace
