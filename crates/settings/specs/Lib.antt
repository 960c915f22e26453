pub mod Said
pub mod Blanks
pub mod Faults
pub mod Lines
