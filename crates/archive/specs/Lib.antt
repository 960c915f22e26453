pub mod Archive
pub mod OneAnswer
