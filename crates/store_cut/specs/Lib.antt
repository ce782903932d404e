pub mod Rereading
pub mod Rewriting
pub mod Cutting
pub mod Anew
