pub mod Encodings
pub mod Escapes
pub mod Runs
pub mod Walks
pub mod Outcomes
