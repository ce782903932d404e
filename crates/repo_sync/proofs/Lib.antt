pub mod Judged
pub mod OneAnswer
pub mod Pieces
pub mod Synced
pub mod Linked
pub mod SomeAnswer
