pub mod Selected
