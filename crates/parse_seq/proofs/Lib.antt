pub mod Below
pub mod SeqCover
pub mod SeqSound
pub mod Called
