pub mod Counted
pub mod Kinds
