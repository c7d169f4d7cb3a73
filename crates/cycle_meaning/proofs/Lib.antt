pub mod WorkedCycleRows
pub mod CountingRows
pub mod WaveformRows
