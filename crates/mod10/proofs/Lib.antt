pub mod Carries
pub mod OneAnswer
