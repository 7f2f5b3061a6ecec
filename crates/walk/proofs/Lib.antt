pub mod Stepping
pub mod BySixteens
pub mod Coming
pub mod OneAnswer
