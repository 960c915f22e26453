pub mod First
pub mod Exactly
pub mod Pool
pub mod Sound
