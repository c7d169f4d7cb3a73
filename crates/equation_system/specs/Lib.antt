pub mod Prepared
pub mod Tests
pub mod Posed
