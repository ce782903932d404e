pub mod Bytes
pub mod Fits
pub mod Journals
pub mod WellFormed
