pub mod Segments
pub mod Short
