pub mod Lines
pub mod Standings
pub mod Parsing
pub mod MethodLists
pub mod Methods
pub mod Runs
pub mod Unique
pub mod Refreshing
