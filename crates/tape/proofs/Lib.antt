pub mod Names
pub mod Windows
pub mod Fronts
pub mod Lawful
pub mod Nexts
pub mod OneAnswer
