pub mod Lists
pub mod Grown
pub mod Scopes
pub mod Numbered
pub mod Statements
pub mod Bodies
pub mod Whole
