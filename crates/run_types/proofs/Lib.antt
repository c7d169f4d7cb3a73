pub mod Queues
pub mod Beginning
pub mod Frames
pub mod Statements
pub mod Places
pub mod Running
pub mod Safe
pub mod Printing
