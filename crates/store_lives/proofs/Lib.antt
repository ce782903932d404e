pub mod Pairs
pub mod Cut
pub mod Living
