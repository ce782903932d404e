pub mod Ends
pub mod HeadFaults
pub mod ItemFaults
pub mod CarFaults
pub mod OneAnswer
