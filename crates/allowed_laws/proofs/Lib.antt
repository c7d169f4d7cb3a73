pub mod Signals
pub mod Targets
pub mod Simple
