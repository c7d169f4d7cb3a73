pub mod Projected
pub mod Waveform
