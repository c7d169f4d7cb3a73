pub mod Mini
pub mod Ramp
pub mod Row
pub mod Solver
pub mod Switch
