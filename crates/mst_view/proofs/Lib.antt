pub mod AtHand
pub mod Doubled
pub mod TreeAt
pub mod Filling
pub mod Words
pub mod Encoded
pub mod Steps
pub mod Tops
pub mod HoleLinks
pub mod Heights
pub mod Forms
pub mod NoView
pub mod Sizes
mod FirstWords
pub mod Pieces
pub mod Behind
