pub mod Lines
pub mod Opening
pub mod Table
pub mod Faults
