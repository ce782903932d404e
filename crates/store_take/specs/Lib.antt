pub mod Outcomes
pub mod Batches
pub mod Taking
pub mod Commands
pub mod Faults
pub mod Lines
