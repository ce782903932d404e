pub mod State
pub mod Folds
pub mod Entries
pub mod Shape
pub mod Tree
pub mod Falls
pub mod Dids
pub mod Laws
