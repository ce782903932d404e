pub mod Characters
pub mod Did
pub mod Path
pub mod Host
pub mod Tid
pub mod Laws
