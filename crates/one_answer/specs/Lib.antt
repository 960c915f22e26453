pub mod Entries
pub mod Writers
pub mod Parts
