pub mod UnknownLines
