pub mod Order
pub mod Times
