pub mod Initial
