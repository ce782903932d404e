pub mod Faults
pub mod Repository
pub mod Checks
pub mod Laws
pub mod Scans
pub mod Sync
