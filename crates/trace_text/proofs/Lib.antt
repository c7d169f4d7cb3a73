pub mod WorkedText
