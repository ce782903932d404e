pub mod Repository
pub mod Held
pub mod Lone
pub mod Placed
pub mod Playing
pub mod Syncing
pub mod State
pub mod Taken
