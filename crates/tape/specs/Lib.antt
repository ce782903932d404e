pub mod Format
pub mod Shown
pub mod Laws
pub mod ReadAhead
pub mod Front
pub mod Reading
pub mod Steps
