pub mod Sequence
pub mod Run
pub mod Bits
