pub mod Constant
pub mod Laws
