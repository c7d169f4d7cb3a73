pub mod MoveLines
