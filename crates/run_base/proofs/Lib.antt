pub mod AfterCut
pub mod Ended
pub mod Reading
