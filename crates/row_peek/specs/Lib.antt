pub mod Peeked
pub mod Passing
pub mod Peeking
