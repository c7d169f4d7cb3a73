pub mod Waveforms
pub mod Statements
pub mod Running
pub mod Times
