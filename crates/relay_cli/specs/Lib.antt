pub mod Commands
pub mod Statuses
pub mod Report
pub mod Verdicts
pub mod Runs
pub mod Ran
