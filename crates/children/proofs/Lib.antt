pub mod Walk
pub mod Values
pub mod Rules
pub mod Table
pub mod Family
pub mod Reach
