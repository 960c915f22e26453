pub mod Classes
pub mod Escapes
pub mod CleanRun
