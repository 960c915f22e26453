pub mod Bools
pub mod Finite
pub mod Arms
