pub mod Splits
pub mod Dids
pub mod Paths
pub mod Tids
pub mod Texts
