pub mod Parts
pub mod Hex
pub mod Numbers
pub mod Words
pub mod Throughout
pub mod Letters
