pub mod Rules
pub mod WellFormed
pub mod Laws
pub mod Journal
pub mod Folds
pub mod NewRow
