pub mod Sites
pub mod Premises
pub mod Laws
