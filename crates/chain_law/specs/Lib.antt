pub mod Given
pub mod Chained
pub mod Again
pub mod Laws
pub mod Needed
pub mod Trust
pub mod Made
pub mod GivenLaws
