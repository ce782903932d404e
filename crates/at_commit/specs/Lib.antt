pub mod Fields
pub mod Signed
pub mod Commit
pub mod Parts
