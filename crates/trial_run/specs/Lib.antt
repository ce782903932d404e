pub mod Merging
pub mod Summary
pub mod Taking
pub mod Tried
