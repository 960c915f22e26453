pub mod Numbers
pub mod Switches
