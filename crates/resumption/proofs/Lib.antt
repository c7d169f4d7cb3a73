pub mod Walks
pub mod Asking
pub mod Order
pub mod Looking
