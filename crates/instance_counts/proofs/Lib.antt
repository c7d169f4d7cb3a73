pub mod Lessened
