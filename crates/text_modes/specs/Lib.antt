pub mod Making
pub mod Start
pub mod TextReplay
pub mod TextRun
