pub mod Target
pub mod Notices
pub mod Served
pub mod StreamPlaces
pub mod Faults
pub mod Serving
pub mod Writing
pub mod Laws
