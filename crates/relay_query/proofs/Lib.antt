pub mod Heads
pub mod Known
pub mod Members
pub mod NoFloats
pub mod Pages
pub mod Seeking
