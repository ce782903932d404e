pub mod Joining
pub mod Writing
pub mod Taking
