pub mod NotesLemmas
pub mod TakingLemmas
pub mod Steps
