pub mod Task
pub mod World
pub mod Statements
pub mod Processes
pub mod Cycles
pub mod Worked
pub mod Counting
pub mod Waveforms
