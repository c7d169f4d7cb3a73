pub mod Sides
pub mod Exchanged
pub mod Handed
pub mod Moments
pub mod Kept
pub mod Promises
pub mod Safe
pub mod Clauses
