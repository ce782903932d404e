pub mod FillingLaw
pub mod Pruned
pub mod Known
pub mod Covering
pub mod OneView
pub mod NoFault
pub mod Links
