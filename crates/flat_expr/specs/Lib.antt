pub mod Subtype
pub mod Expr
