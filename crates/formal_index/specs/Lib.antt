pub mod Formals
