pub mod Evaluable
