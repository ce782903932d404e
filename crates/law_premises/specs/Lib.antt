pub mod Runs
pub mod Checking
pub mod Carrying
pub mod Histories
pub mod Merges
pub mod Forming
