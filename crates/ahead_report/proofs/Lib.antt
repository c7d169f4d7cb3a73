pub mod NoteRules
