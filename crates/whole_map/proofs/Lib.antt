pub mod Places
pub mod Sizes
pub mod Edits
pub mod Halves
pub mod Entries
pub mod InTurns
