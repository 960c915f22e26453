pub mod Fronts
pub mod Ends
pub mod Parts
pub mod Answered
