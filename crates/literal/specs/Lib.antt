pub mod Chosen
pub mod Printing
