pub mod Buffering
pub mod Reread
pub mod Searching
pub mod ShownMessages
