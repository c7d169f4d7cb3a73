pub mod Reading
pub mod Evaluable
pub mod Residuals
