pub mod Worlds
pub mod Steps
pub mod Orders
pub mod Homes
pub mod Sums
pub mod Ends
