pub mod Linear
pub mod Lines
pub mod Laws
