pub mod Accounts
pub mod Bodies
pub mod Replies
pub mod Seen
