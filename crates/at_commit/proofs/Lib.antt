pub mod Unsigned
pub mod Nodes
