pub mod Steps
pub mod Views
pub mod Walked
pub mod Keeps
pub mod KeptKeys
