pub mod PartLaws
pub mod RangeLaws
