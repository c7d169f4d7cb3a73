pub mod Port
pub mod Output
pub mod OutputLaws
