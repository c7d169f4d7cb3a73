pub mod Meanings
pub mod SetLaws
pub mod WorkedRows
pub mod SolutionLaws
