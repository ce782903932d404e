pub mod Cursors
pub mod Listed
