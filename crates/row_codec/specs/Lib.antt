pub mod Items
pub mod Bodies
pub mod Readers
pub mod Reading
pub mod Answers
pub mod Laws
pub mod Left
