pub mod Three
pub mod OneAnswer
