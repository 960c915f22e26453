pub mod Top
pub mod Printing
