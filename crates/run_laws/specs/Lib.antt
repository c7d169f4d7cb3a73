pub mod Changes
pub mod Times
pub mod Events
pub mod Values
pub mod Safe
