pub mod Height
pub mod KeyBytes
pub mod Lists
pub mod Edits
pub mod Faults
pub mod Maps
pub mod Laws
