pub mod Parts
pub mod Playing
pub mod Maps
pub mod Differing
pub mod Next
pub mod Changed
