pub mod Places
pub mod OneAnswer
