pub mod Known
pub mod First
