pub mod Shaped
pub mod Walk
pub mod States
pub mod Reach
