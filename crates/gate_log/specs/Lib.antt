pub mod Beside
pub mod Build
pub mod Crash
pub mod PendingBodies
pub mod Image
pub mod Log
pub mod Opening
pub mod Pick
