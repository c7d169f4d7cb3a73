pub mod Ran
pub mod RanLaws
