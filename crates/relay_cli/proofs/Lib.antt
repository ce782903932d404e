pub mod Verdicts
pub mod Words
pub mod Encoded
pub mod Handed
pub mod Causing
pub mod Asking
pub mod Telling
