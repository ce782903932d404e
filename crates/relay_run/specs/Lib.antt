pub mod Lines
pub mod Shown
pub mod CommandRan
pub mod Behind
pub mod Cutting
