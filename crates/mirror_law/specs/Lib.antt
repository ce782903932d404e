pub mod Open
pub mod Mirrored
pub mod Laws
