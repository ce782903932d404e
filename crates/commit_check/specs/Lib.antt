pub mod Opening
pub mod Refusing
pub mod Step
pub mod Order
pub mod Linking
pub mod Checking
pub mod Laws
