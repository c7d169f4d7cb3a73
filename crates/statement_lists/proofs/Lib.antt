pub mod Breaking
pub mod Chosen
pub mod Rising
pub mod Taken
pub mod Waving
