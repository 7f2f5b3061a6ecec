mod Groups
pub mod OneAnswer
