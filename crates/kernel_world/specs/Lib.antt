pub mod Reading
pub mod Sound
pub mod Acting
pub mod Beginning
