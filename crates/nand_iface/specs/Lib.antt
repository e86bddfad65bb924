pub mod Flash
pub mod NotesAndRoom
