pub mod First
pub mod Words
pub mod Kinds
