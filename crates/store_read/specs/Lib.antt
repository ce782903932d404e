pub mod Events
pub mod Rereading
pub mod ShownMessages
