pub mod Leaves
pub mod Bodies
