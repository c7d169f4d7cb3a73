pub mod NameLaws
pub mod KindLaws
pub mod OnceLaws
