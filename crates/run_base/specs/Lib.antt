pub mod Place
pub mod Statuses
pub mod Reading
pub mod Ends
pub mod Deeds
pub mod Cutting
