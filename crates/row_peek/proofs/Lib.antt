pub mod Times
pub mod Passed
pub mod Rows
pub mod Seen
pub mod Ends
pub mod Within
